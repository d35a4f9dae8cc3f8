pub mod Answers
pub mod Listings
