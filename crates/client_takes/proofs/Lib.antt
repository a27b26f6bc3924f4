pub mod Dropped
pub mod Rows
