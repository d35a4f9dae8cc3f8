pub mod Admitted
pub mod Numbers
