mod Addresses
mod Contexts
mod Hearings
pub mod WhyUnread
pub mod Writing
pub mod Appended
pub mod Talking
pub mod Passing
pub mod Lasting
pub mod Unsents
pub mod Taken
pub mod Stored
pub mod OpenPaths
pub mod PathTexts
pub mod Printing
pub mod PayloadFiles
pub mod FirstTree
pub mod Openings
pub mod Holdings
pub mod Scripts
pub mod KeyFiles
pub mod Inputs
pub mod Placed
pub mod Staying
pub mod EndsEach
