pub mod Windows
pub mod Doubled
