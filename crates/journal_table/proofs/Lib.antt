pub mod Induct
pub mod Lists
pub mod Removed
pub mod Steps
pub mod Least
