pub mod AllocateLaws
pub mod EraseLaws
pub mod FillLaws
pub mod FreshLaws
