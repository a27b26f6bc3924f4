pub mod Bodies
pub mod Looked
pub mod Recovered
pub mod Scanned
pub mod Sound
pub mod Steps
pub mod Stopped
