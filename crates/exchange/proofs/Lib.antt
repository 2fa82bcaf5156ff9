pub mod ImportLaws
pub mod LeftLaws
pub mod MeasureLaws
pub mod WriteLaws
pub mod Laws
pub mod Promises
