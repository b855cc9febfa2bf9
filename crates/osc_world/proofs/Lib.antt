pub mod Rounds
pub mod Going
pub mod Enrolling
pub mod Sending
pub mod Taking
pub mod Deeds
pub mod Apart
mod Waiting
mod Rest
mod Looking
mod Slots
mod Queue
mod Deliveries
mod Straight
mod Through
mod Asked
mod AskWorld
mod AskThroughWorld
mod Posted
mod ExchangeWorld
mod ExchangeThroughWorld
pub mod Way
mod StillHeld
mod MayAsk
mod Premises
mod Minting
mod Lies
mod Beginnings
pub mod LossWorld
pub mod LossAsked
