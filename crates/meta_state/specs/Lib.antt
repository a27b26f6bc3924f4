pub mod Applied
pub mod Decisions
pub mod Queries
pub mod Stands
