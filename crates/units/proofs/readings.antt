pub mod Compared
pub mod Answering
pub mod Outcomes
