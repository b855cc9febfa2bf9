pub mod Drawing
pub mod Written
pub mod Ended
pub mod Input
pub mod TokenLine
pub mod TokenFiles
pub mod Holding
pub mod Unread
pub mod Turning
pub mod Heard
pub mod Sockets
pub mod UdpPorts
pub mod Serving
pub mod Revoking
pub mod System
pub mod Kept
pub mod ByDisk
pub mod Storing
pub mod Conversation
pub mod Context
pub mod Staying
pub mod Strange
pub mod Checked
pub mod KeyLine
pub mod PayloadFile
pub mod Inner
pub use Checked.{address_line, grant_line, resource_line, shown_line, target_line}
pub use Conversation.{GoesOn, GoesOnBy, Requests, Upshot, Waits, after_passing, at_once, sent_alone, still, told, turns}
pub use Ended.{CannotAsk, CannotLab, CannotTalk, EndsClient, EndsKept, EndsLab, EndsNode, EndsServer, EndsServing, EndsSim, EndsStore, EndsTold, EndsTurns, EndsUnkept, IsFault, IsNotKept, NoScript, NoServer, NoSettings, NoStore, NotOpened}
pub use Input.{IsBeyond, IsWithin, TakesAtMost, longest_key, longest_payload_file, longest_script, longest_settings, within}
pub use Kept.{HasCause, LeavesKept}
pub use Holding.{contexts_of, proxy_held, server_held, taken_below}
pub use PayloadFile.{IsWithPayload, with_payload}
pub use Revoking.{AreRevoked, IsTooLongIn, KeepsTree, MayHoldTree, Stops, under_way, with_place, with_revoked, with_revoked_id}
pub use Serving.{Forwards, Lives, revoking, serving, target_of, tree_of, with_resource}
pub use Storing.{IsKeptIn, IsOpened, IsRead, IsSaved, IsStoreAt, KeptBy, dump_lines, dump_table, printed, quoted_char, store_lines, stored_line}
pub use System.{Passed, Passes, RunsOn, nothing_passed, then_passed}
pub use Turning.{LeavesNode, Ran, Runs, Shown, TakesTurn, Turns, and_then, as_it_was, moved_on, never, ran, shown_after}
pub use Written.{IsBegun, IsBegunAfter, last_line}
pub use Unread.{IsLongText, IsUnreadText, IsWhy, TellsFault, TellsLong, TellsWhy, long_words, unread_words}
