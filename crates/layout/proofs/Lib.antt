pub mod Numbers
pub mod Codec
