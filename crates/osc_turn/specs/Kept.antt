-- Definitions that the contracts cite.
pub mod Changes
pub mod Turns
pub mod Lives
pub use Changes.{DifferAt, HasTooLong, IsChangeOf, path_asked, path_changed, path_changed_by, tells_change}
pub use Lives.{Cut, IsLived, Notes, ServerSteps, StartsOver, noted_steps}
pub use Turns.{Stands, may_hold_last}
