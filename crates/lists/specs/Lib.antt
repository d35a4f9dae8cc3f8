pub mod listing
