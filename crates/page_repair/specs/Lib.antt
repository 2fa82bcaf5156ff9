pub mod Kept
pub mod Mended
