pub mod Lost
pub mod TimeLemmas
