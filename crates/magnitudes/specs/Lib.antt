pub mod Samples
pub mod Patterns
pub mod Sizes
