pub mod Family
pub mod Records
pub mod Stands
pub mod Example
