pub mod Polynomials
pub mod Division
pub mod Places
pub mod Rule
pub mod Registers
pub mod Powers
pub mod Noticed
pub mod Frames
