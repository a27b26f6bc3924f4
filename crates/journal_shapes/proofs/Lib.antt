pub mod Inodes
pub mod Looks
pub mod Numbers
pub mod Sizes
pub mod Heads
pub mod Told
pub mod Steps
