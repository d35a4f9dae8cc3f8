pub mod Listed
pub mod Lending
