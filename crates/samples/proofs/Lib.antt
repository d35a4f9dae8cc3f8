pub mod Answers
pub mod Promises
pub mod Correcting
pub mod Loading
pub mod Outcomes
