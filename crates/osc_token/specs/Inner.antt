-- What private functions owe one another; no public contract rests on it.
pub mod Opening
pub mod Reading
pub mod Judging
pub mod Lengths
