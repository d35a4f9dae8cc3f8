pub mod Answers
pub mod Found
pub mod raising
pub mod smallest
pub mod sizing
