pub mod Tree
pub mod Walks
pub mod Refusals
pub mod Names
pub mod Realms
