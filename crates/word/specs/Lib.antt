pub mod measured
pub mod ownparity
