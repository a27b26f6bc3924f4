pub mod Asked
pub mod Follows
pub mod Makes
