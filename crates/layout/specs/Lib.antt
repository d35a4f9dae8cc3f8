pub mod Lent
pub mod Rooms
