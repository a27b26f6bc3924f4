pub mod Changes
pub mod Decided
