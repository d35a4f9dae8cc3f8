pub mod Answers
pub mod Ends
