pub mod Lengths
pub mod Outcomes
pub mod ListOutcome
pub mod Unoffered
