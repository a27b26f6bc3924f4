pub mod Keeping
pub mod Rows
pub mod Owns
pub mod Laws
