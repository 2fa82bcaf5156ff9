pub mod BareLaws
pub mod PlaceLaws
pub mod ReserveLaws
