pub mod Handed
pub mod Cutting
