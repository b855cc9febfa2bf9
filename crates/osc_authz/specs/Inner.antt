-- What private functions owe one another; no public contract rests on it.
pub mod Marks
pub mod Lives
pub mod Revoking
pub mod Places
pub mod Payload
pub mod Rooms
pub mod KnownAnswer
