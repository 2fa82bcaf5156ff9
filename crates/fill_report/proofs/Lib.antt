pub mod PageLaws
pub mod SumLaws
pub mod FillLaws
