pub mod Pages
pub mod Held
