-- Definitions that the contracts cite.
pub mod Ports
pub mod Turns
pub mod Errors
pub mod Pace
pub mod Watch
pub mod Time
pub mod Times
pub mod Behind
pub mod ClockAndRandom
pub mod Kept
pub mod Running
pub mod Unsent
pub mod Runs
pub mod Inner
pub use ClockAndRandom.{ClockAndRandomState, Gives, IsDrawn, IsOfSeed, IsSeeded, Reads, Starts}
pub use Pace.{CameIn, IsRefusedIn, busy_after, must_tick}
pub use Ports.{CountsFault, Received, came_for, cause_of, grown, received_in}
pub use Running.{BatchState, Begins, DoesTurn, Draws, DropsTurn, EndsBy, FailsTurn, LosesLast, LosesTurn, Made, MakesMore, MakesStep, MakesTurn, MissesTurn, PortState, TakesTurn, TakesTurns, any_changed, at_port, gave_in, most_steps, running, sent_by, stepped_of, ticks_at}
pub use Runs.{AreSteps, noted_by}
pub use Unsent.{IfFailed, IfLost, IfNoMoment, IfNotKept}
pub use Turns.{HasLost}
