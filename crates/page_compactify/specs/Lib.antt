pub mod Keys
pub mod Room
