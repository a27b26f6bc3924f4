pub mod Answers
pub mod Dentries
pub mod Places
