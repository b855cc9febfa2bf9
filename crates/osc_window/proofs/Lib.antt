pub mod Bitmap
pub mod Bits
pub mod Lists
pub mod Places
pub mod Windows
