pub mod CheckLaws
pub mod HoldLaws
pub mod NameLaws
pub mod DeedLaws
pub mod RowLaws
