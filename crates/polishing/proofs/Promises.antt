pub mod Whole
pub mod Cleared
pub mod Listed
pub mod Rule
pub mod Same
pub mod Alike
pub mod Outcome
pub mod Examples
