pub mod Histories
pub mod Parts
pub mod Table
pub mod Fields
