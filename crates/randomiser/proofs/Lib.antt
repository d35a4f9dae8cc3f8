pub mod Sequences
pub mod Randomising
pub mod Parts
