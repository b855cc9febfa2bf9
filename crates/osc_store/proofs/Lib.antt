-- Lemmas.
pub mod RowLemmas
pub mod ViewLemmas
pub mod LoadLemmas
mod BelongLemmas
pub mod CauseLemmas
pub mod FindLemmas
pub mod StartLemmas
pub mod FileLemmas
pub mod TakeLemmas
mod WholeLemmas
mod WriteLemmas
mod ReadLemmas
mod LogLemmas
mod DamageLemmas
