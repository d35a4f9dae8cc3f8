pub mod Quick
pub mod Answers
pub mod groups
