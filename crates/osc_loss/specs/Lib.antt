-- Definitions that the contracts cite.
pub mod Road
pub mod Round
pub mod Session
pub mod Staying
pub mod Exchange
pub mod Alone
pub use Road.{AreFewSince, AreLeavingWaiting, AreWithin, AtClient, AtServer, ClientTick, Event, Goes, Happening, Happens, IsAnotherMessage, IsReadyAtFirst, IsRemembered, IsUnrelated, LeavesWaiting, OtherAtClient, OtherAtServer, ServerTick, happening_of}
pub use Round.{EndsOnce, Given, IsAnsweredOverLoss, IsAnsweredWhateverComes, IsByTimetable, IsLearntFirst, IsTakenUpFirst, IsTakenUpOnce, entries_of, results_of}
pub use Session.{IsAskedInASession, IsServedAs, KeepsContext, MayServe, RequestOnItsWay}
pub use Exchange.{IsAgreedAs, IsBegunOverLoss, MakesOneContext, MayAgree, PostOnItsWay}
pub use Staying.{AreLeavingContext, HasFresh, IsLiveThere, LeavesContext, StaysLive}
pub use Alone.{IsAlone, IsAtFirst}
