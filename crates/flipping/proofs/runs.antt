pub mod Passing
pub mod Sizes
