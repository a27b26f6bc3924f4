pub mod Follows
pub mod Later
pub mod Taken
