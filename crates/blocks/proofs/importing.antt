pub mod Faults
pub mod Outcomes
