pub mod RelocationLaws
pub mod MovedLaws
pub mod RecordLaws
