pub mod Exchange
pub mod Told
pub mod Words
pub mod FileTold
