pub mod Orders
pub mod Seeing
pub mod Flipping
