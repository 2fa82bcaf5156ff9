pub mod SameLaws
pub mod CountLaws
pub mod TellLaws
pub mod WriteLaws
pub mod RepairLaws
