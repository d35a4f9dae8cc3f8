pub mod Offers
pub mod Once
