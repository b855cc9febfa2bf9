-- Lemmas that the proofs cite.
pub mod Parts
pub mod Pigeon
pub mod TableLaws
pub mod Lookups
mod KeptPlaces
mod AnswersKept
mod LastAnswers
pub mod LifeLemmas
mod PostMarks
mod ChangedPath
mod PlaceLemmas
pub mod MarkLemmas
mod PayloadLemmas
mod AnswerLemmas
mod FinishLemmas
mod PostLemmas
mod OpenLemmas
mod OutcomeLemmas
mod ExchangeLemmas
mod AgreementLemmas
mod Members
mod ContextLaws
mod MeantLaws
mod OneNameLaws
mod KnownLaws
mod NameLemmas
mod RoomLemmas
