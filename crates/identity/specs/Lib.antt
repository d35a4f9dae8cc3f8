pub mod ties
pub mod printed
