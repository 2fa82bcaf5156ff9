pub mod Format
pub mod Import
pub mod Export
pub mod RoundTrip
pub mod Alike
pub mod Outcome
pub mod Examples
