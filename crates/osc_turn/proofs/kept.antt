pub mod ChangeLemmas
pub mod LifeLemmas
pub mod CutLemmas
pub mod Grown
pub mod RunLemmas
pub mod MakingLemmas
pub mod CauseLemmas
pub mod TurnLemmas
