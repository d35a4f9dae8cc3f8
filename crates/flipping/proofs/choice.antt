pub mod Searches
pub mod Excesses
