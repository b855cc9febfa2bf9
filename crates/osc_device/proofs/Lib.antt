-- Proofs.
pub mod Carried
pub mod Answering
pub mod Slots
pub mod Going
pub mod Entering
pub mod Granted
pub mod FirstOf
pub mod RunBegins
pub mod Keeping
pub mod Lives
