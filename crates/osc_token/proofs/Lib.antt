-- Lemmas.
mod OpeningLemmas
mod MintingLemmas
pub mod LengthLemmas
mod TokenLaws
mod ReadingLemmas
mod JudgingLemmas
mod OutcomeLemmas
mod FieldLemmas
mod MintedLemmas
mod SpelledClaims
mod MintedTexts
