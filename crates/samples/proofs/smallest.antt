pub mod Masks
pub mod Searching
pub mod Fours
