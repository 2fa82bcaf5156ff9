pub mod Slots
pub mod Edits
pub mod Views
pub mod Compactify
pub mod Lent
