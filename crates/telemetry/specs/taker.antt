pub mod Stream
pub mod Taking
pub mod Answers
