pub mod Bytes
pub mod Objects
pub mod Reads
pub mod Serves
pub mod Example
