pub mod Walk
pub mod Facts
pub mod Solved
pub mod Telecommand
pub mod NearEarth
