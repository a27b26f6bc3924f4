pub mod Weave
pub mod Rises
pub mod Stands
