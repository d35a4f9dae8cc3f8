pub mod Encoding
pub mod Correcting
pub mod Opening
pub mod Outcomes
