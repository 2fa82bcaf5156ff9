pub mod Placed
pub mod KnownLaws
pub mod RowsLaws
