pub mod Lending
pub mod Laying
