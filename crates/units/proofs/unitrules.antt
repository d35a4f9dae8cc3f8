pub mod Shapes
pub mod Blocks
pub mod Compared
pub mod Answering
pub mod Theorems
