pub mod Formats
pub mod Whats
pub mod Listed
pub mod Journals
