pub mod State
pub mod Route
pub mod Sending
pub mod Told
pub mod Answering
pub mod Case
pub mod Table
pub mod Hearing
pub mod Steps
pub mod Lawful
pub mod Inner
pub use Answering.{AskComes, Comes, ExchangeComes, IsSealedFor, answered, code_of, context_after, ended_by, is_read, malformed, no_response, not_genuine, notes_of, waits_after}
pub use Case.{case_of, counts, is_ended, is_reset}
pub use Hearing.{Begins, Hears, Requests, Ticks}
pub use Lawful.{IsLawfulClient}
pub use Route.{HostAndPort, IsHost, IsLawfulOrigin, proxy_options, through}
pub use Sending.{Asked, Asks, Exchanges, IsFree, IsHindered, IsRefused, OfEachPost, PostFits, PostIsTooLong, TicksBy, acts_at, asks, begins, begun_by, busy, exhausted, hindered, is_over, opened, plain_of, plain_request, post_by, post_of, post_with, refusing, restarted, too_long, waits}
pub use State.{core, outstanding, outstanding_of, raised_to, skipped_to}
pub use Steps.{IsStep, most_sent}
pub use Table.{Answers, AnswersNew, Counts, SendsOne, Settles, TakesMemory, refusal}
pub use Told.{AreTold, IsToldOf, NeedsNoSeal, SealsNothing, needs_none, noted_before, open_before, sealed_now, unprotected}
