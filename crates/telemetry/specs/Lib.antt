pub mod sequences
pub mod taker
