-- What private functions owe one another; no public contract rests on it.
pub mod Reading
pub mod Rewriting
pub mod Bounds
pub mod Going
pub mod Over
