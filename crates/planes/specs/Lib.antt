pub mod Counts
pub mod Ranges
