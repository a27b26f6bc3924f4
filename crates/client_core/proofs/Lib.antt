pub mod OneMore
pub mod Breaks
