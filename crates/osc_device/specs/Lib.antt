-- Definitions that the contracts cite.
pub mod State
pub mod Carrying
pub mod Answered
pub mod Begun
pub mod Runs
pub mod Ruling
pub mod Words
pub mod Calls
pub mod Kept
pub mod Inner
pub use Answered.{IsAnswered, IsAnsweredWhereReady, IsOpen, IsReady, IsWhole, MayOpen, MayReturn, own_request}
pub use Begun.{IsBegun, IsGranted, IsNoDevice, IsTooLongToPost, ReachesTooFar, own_claims, own_holder, server_alone}
pub use Carrying.{AskedOfServer, AsksItsServer, Carries, ClientTakesMemory, ComesBack, Reaches, ServerTakesMemory, asked_at, asked_by, at_device, at_server}
pub use Calls.{HandsOut, HasAsked, HasHeard, HasPosted, HasRestarted, HasRuled, HasTicked, IsUnhindered}
pub use Kept.{HoldsOneOf, IsUnkept, KeptState, StaysKept, Yields, YieldsKept, tree_of}
pub use Runs.{AllGoOn, AreOthers, GoesOn, IsIn, IsOfAnEntry, IsTold, first_run, noted, of_own, of_server, restarts}
pub use Ruling.{method_of, round_of}
pub use State.{own_address, server_address}
pub use Words.{Holder, IsTokenOf, ServedRequest, refused_in, served_as, served_in}
