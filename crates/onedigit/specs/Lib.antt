pub mod Wrong
pub mod Laid
