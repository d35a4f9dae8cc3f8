pub mod Tables
pub mod Codes
pub mod Checks
pub mod Encoding
pub mod Flipping
pub mod Identity
