pub mod Shapes
pub mod Groups
