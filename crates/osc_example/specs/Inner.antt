-- What private functions owe one another; no public contract rests on it.
pub mod Bolt
pub mod Place
pub mod Wish
