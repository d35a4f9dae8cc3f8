pub mod Nearest
pub mod Lists
pub mod Answers
