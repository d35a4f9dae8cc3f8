pub mod FrameCheck
pub mod Table
