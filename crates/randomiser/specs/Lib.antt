pub mod Randomiser
