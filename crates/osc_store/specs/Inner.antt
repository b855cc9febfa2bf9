-- What private functions owe one another; no public contract rests on it.
pub mod Writing
pub mod Loading
