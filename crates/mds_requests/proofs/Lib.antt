pub mod Later
pub mod Places
pub mod Counts
pub mod Ends
pub mod Turned
pub mod Passing
pub mod Taken
pub mod Treated
