pub mod Below
pub mod Named
pub mod Rising
pub mod Steady
pub mod Steps
