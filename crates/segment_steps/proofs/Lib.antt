pub mod Lent
pub mod After
pub mod Written
