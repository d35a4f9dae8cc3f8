pub mod offer
pub mod tables
