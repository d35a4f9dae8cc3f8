pub mod Blocks
pub mod framecheck
pub mod importing
pub mod exporting
