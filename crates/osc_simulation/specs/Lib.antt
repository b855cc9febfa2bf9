pub mod Draw
pub mod Text
pub mod Trace
pub mod Names
pub mod Copies
pub mod Events
pub mod Records
pub mod Simulation
pub mod SetUp
pub use Copies.{altered}
pub use Events.{datagram_number, datagram_of, what_of}
pub use Names.{granted, made, made_from, name_of_number, names_in, number_of}
pub use Records.{PrintAllRecords, PrintAllSent, PrintsRecord, PrintsSent, TellsMessage, holder_text, learnt_text, sent_at, served_words, step_at}
pub use SetUp.{CanPutAll}
pub use Simulation.{AllEnrolled, Begins, CutShort, Does, Enrolled, IsCut, IsEnd, IsFirst, IsFront, IsStartOf, Printing, Prints, PrintsLine, Simulates, at_end, behind_number, holder_of, in_lines, is_sealing, later, only_text, proxy_of, revocation_in, scope_from, tag_of, tree_from, way_by, with_proxies}
pub use Text.{line, short_text}
pub use Trace.{alone_line, bad_line_text, end_text, resource_text, wanted_bytes_text, words_before}
