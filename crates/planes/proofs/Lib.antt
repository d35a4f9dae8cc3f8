pub mod Digits
pub mod Ranges
pub mod Choice
