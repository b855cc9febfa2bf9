-- What private functions owe one another; no public contract rests on it.
pub mod Tokens
pub mod Ends
pub mod Notes
pub mod Code
