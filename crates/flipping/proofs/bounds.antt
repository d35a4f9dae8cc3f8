pub mod Entries
pub mod Doubled
pub mod Turned
pub mod Weights
pub mod Flipped
