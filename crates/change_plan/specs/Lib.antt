pub mod Tables
pub mod Causes
pub mod Asked
