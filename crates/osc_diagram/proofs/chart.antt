pub mod Lines
pub mod Sums
pub mod Pieces
