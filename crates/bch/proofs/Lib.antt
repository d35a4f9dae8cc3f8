pub mod Cases
pub mod Division
pub mod Columns
pub mod Codewords
pub mod Words
pub mod Judging
pub mod Promises
pub mod Outcomes
