pub mod Rises
pub mod Given
pub mod Steps
