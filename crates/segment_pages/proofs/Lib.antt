pub mod Seen
pub mod Root
pub mod Back
