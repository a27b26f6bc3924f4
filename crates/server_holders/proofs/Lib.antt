pub mod Any
pub mod One
pub mod Changes
pub mod Grants
pub mod Claims
pub mod Rising
pub mod Same
