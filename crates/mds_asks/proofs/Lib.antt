pub mod Acting
pub mod Recalled
pub mod Given
pub mod Seen
pub mod Asked
