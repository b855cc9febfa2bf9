pub mod XorLemmas
pub mod BlockLemmas
pub mod StreamLemmas
pub mod GenuineLemmas
