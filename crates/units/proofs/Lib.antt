pub mod Lengths
pub mod Parts
pub mod Assembled
pub mod Outcomes
