pub mod Usage
pub mod Network
pub mod Lab
pub mod Turning
pub mod Telling
pub mod Whole
pub mod Inner
pub use Usage.{IsFirstUnused, IsFirstUnusedIn, IsUnused, is_used}
pub use Lab.{Goes, is_waiting, lab_in, out_of, run_of}
pub use Network.{Ports, named, port_of, posted, script_of, socket_of, with_port}
pub use Telling.{BreaksOff, ComesOf, EndsWith, Learnt, Prints, Rules, TellsLine, TellsLines, all_told, client_of, learnt, learnt_by, no_line, rules_of}
pub use Turning.{Begins, HandsOver, Halts, Leads, LineBegins, LiveLab, TakesTurns, Turn, Turns, TurnsAt, WholeTurn, WholeTurns, acts_of, all_taken, begins, deed_of, next_turn, next_whole_turn, no_turn, no_whole_turn, nobody, rested, sent_by, stays, task_of, then_line, then_turn, was_busy}
pub use Whole.{AreAt, BeginsAt, EndsEarly, IsAt, IsFirst, Labs, LinesPrint, LinesStop, any_place, in_lines, in_script, no_script, unbegun}
