pub mod Under
pub mod Ends
