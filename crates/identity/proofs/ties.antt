pub mod Sums
pub mod Listed
pub mod Numbers
pub mod Printed
