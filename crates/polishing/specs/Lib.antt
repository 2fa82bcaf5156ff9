pub mod Polishing
pub mod Told
pub mod Words
