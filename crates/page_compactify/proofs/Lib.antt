pub mod KeyLaws
pub mod PackLaws
pub mod RoomLaws
