-- Definitions that the contracts cite.
pub mod Exchange
pub mod Standing
pub mod SecurityContext
pub mod LastAnswer
pub mod Table
pub mod Known
pub mod Desk
pub mod Posting
pub mod Post
pub mod Begun
pub mod Client
pub mod Errors
pub mod Agreement
pub mod Granted
pub mod Enrolling
pub mod Members
pub mod LastAnswers
pub mod Marked
pub mod Contexts
pub mod Agreed
pub mod HoldsToken
pub mod Welcome
pub mod Inner
pub use Agreed.{IsAgreed}
pub use Agreement.{Agrees, Answers, HasRoom, IsGranted, Judges, MadeIsHeld, again, agreed, agreed_post, disallowed, end_of, full, holder_of, is_allowed, known_of, name_by, new_context, refused, replayed, revoked}
pub use Begun.{ClientContextState}
pub use Client.{Finishes, another_code, equal_ids, made, made_name, no_answer, offered_id}
pub use Contexts.{AreKept, HasAdded, HasTaken, IsConfirmedOf, IsLive, IsPendingOf, OfToken, confirmed_by, of_token, of_tokens, pending_of}
pub use Desk.{DeskState}
pub use Enrolling.{FitAToken, HasScope, IsDeskOf, IsLawful, IsRefusal, IsUngranted, of_mint, of_scope}
pub use Errors.{post_number}
pub use Exchange.{IsAnswer, IsPost, answer_item, post_item}
pub use Granted.{IsSecret, IsShort}
pub use LastAnswers.{Keeps}
pub use LastAnswer.{LastAnswerState, longest_sealed}
pub use Known.{AreFew, IsStillHeld, known, offers, remembering}
pub use Marked.{AreMarked, IsMarked, IsSameBut, mark_of}
pub use Members.{In}
pub use Post.{IsKeyFor, IsKeyOf, IsOpened, Opens, Posts, answer_of, code_of, no_post, not_genuine, opened}
pub use Posting.{Offer, OpenedToken, offered}
pub use Table.{IsFull, IsLawfulContext, IsLeastFree, IsTable, KeepsPlace, accepted, accepted_in, alive, answered_by, confirmed_at, confirms_id, contexts, has_id, has_token, holder_at, holds_id, holds_live, ids, if_meant, is_live, is_named, kept_places, last_at, last_in, listed, meant, places_taken, taking, with_id, with_last, with_last_in, with_pending, without_pending, without_pending_in}
pub use Welcome.{IsWelcome}
