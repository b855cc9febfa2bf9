pub mod State
pub mod Case
pub mod Table
pub mod Hearing
pub mod Steps
pub mod Told
pub mod Kept
pub mod Inner
pub use Case.{IsAnswered, IsNewAnswered, case_of, is_authz_info, is_open_get, unprotected_case}
pub use Hearing.{Hears}
pub use Kept.{KeepsSealed, WasSealed}
pub use State.{core, standing_of}
pub use Steps.{IsStep, acts, again}
pub use Table.{IsAgain, IsAnswerTo, Met, again_to, answer_to, answered_again, context_for, met, Answers, AnswersNew, AnswersPost, AnswersProtected, IsMeant, IsOpened, IsRefused, IsSealed, Sends, Serves, answered, nonce_of_post, notes_of_post, notes_of_request, post_reply, posting, refusal_age, refusal_code, refusal_number, refusal_of_post, refused, refused_for, reply_to, served, served_desk}
pub use Told.{AreTold, IsOpenedOf, IsToldOf, request_came, sealed_before, sealed_now, sent_before, token_came, unprotected}
