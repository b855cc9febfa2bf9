-- Definitions that the contracts cite.
pub mod LineEnd
pub mod Time
pub mod Line
pub mod Words
pub mod Turns
pub mod Text
pub mod Json
pub mod Counters
pub mod Kinds
pub mod Limits
pub mod Faults
pub mod Output
pub mod Sent
pub mod Log
pub mod Served
pub mod Inner
pub use Counters.{after_turn, are_due, counted_text, with_lost, with_turn}
pub use Faults.{IsUnreadText, behind_text, fault_text, lost_text, unsaid_text, untold_text}
pub use Log.{Event, Says, SaysIn, SaysOf, Tells, TellsIf, Told, Writes, behind, counted_by, lagging, lost, missed, told, turned, unseen, untold}
pub use Output.{Admits, Puts, Written}
pub use Served.{IsTold, Serves, lines_of}
pub use Time.{IsTime}
pub use Sent.{line_text, seen_after, turn_text}
pub use Turns.{Turn}
pub use Words.{shown_byte}
