mod KeyLemmas
pub mod ListLemmas
pub mod NonceLemmas
pub mod SaltLemmas
