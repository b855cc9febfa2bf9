-- What private functions owe one another; no public contract rests on it.
pub mod ByDisk
pub mod Stores
