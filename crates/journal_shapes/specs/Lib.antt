pub mod Calls
pub mod Example
pub mod Past
pub mod Stands
