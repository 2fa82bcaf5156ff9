pub mod Steps
pub mod Search
pub mod Forwarded
pub mod Home
