pub mod Others
pub mod Queries
pub mod Sights
pub mod Treated
