pub mod Sequence
pub mod Second
pub mod Period
