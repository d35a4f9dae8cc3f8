pub mod Around
pub mod Levels
pub mod Blocks
pub mod Peaks
