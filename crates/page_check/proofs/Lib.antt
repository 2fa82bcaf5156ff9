pub mod SlotLaws
pub mod FitLaws
pub mod MapLaws
pub mod MarkLaws
