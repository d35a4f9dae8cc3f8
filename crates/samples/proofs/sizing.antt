pub mod Sized
pub mod Unlikes
pub mod Passes
pub mod Beside
