pub mod Woven
pub mod Places
