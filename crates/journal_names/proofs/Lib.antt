pub mod Facts
pub mod Inodes
pub mod Entries
pub mod Follows
pub mod Fine
pub mod Seen
