pub mod Bch
pub mod Answers
