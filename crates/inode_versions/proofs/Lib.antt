pub mod Order
pub mod Found
pub mod Pieces
pub mod Tables
pub mod Steps
pub mod Examples
