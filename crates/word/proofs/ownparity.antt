pub mod Ones
pub mod Near
pub mod Words
