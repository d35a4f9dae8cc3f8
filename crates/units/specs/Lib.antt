pub mod Numbers
pub mod unitrules
pub mod unitoffers
pub mod readings
pub mod unitreader
