pub mod bounds
pub mod choice
pub mod narrow
pub mod runs
pub mod endings
