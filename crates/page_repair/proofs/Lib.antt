pub mod BitLaws
pub mod KeepLaws
pub mod MendLaws
