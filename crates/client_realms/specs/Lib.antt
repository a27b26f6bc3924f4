pub mod Contexts
pub mod Fresh
