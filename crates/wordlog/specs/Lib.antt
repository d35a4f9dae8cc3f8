pub mod line
pub mod lines
