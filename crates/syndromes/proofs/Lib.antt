pub mod Bounds
pub mod Rowwise
pub mod Shifts
pub mod Trimming
pub mod Laid
pub mod LowestHeld
