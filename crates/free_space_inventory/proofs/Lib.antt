pub mod Turns
pub mod Search
pub mod Update
