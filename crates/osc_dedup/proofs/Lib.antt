pub mod Distinct
pub mod Found
pub mod History
pub mod Keys
pub mod Places
pub mod Splits
