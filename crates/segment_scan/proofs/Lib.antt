pub mod Records
pub mod Positions
