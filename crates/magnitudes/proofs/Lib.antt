pub mod Smallest
pub mod Choosing
pub mod Orders
pub mod Patterns
pub mod Reading
pub mod Masks
