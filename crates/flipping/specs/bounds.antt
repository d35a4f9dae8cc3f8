pub mod Reading
pub mod Keeping
