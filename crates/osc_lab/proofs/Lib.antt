pub mod Appended
pub mod Bound
pub mod Endings
pub mod Used
pub mod LabRuns
pub mod Labs
pub mod Printing
pub mod Taken
