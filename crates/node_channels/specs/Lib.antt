pub mod Channels
pub mod Stands
pub mod Carried
