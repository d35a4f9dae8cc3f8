pub mod Orders
pub mod Sums
pub mod Cyclic
pub mod Counting
pub mod Octets
pub mod Leasts
