pub mod Finishing
pub mod Turned
