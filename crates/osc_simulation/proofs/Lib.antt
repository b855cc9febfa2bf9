pub mod Lines
pub mod Runs
pub mod Puts
pub mod Holders
pub mod Printing
pub mod Segments
