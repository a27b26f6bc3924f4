pub mod Asked
pub mod Succeeds
