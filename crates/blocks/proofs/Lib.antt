pub mod Lists
pub mod Writing
pub mod Reading
pub mod Answering
pub mod Recordings
