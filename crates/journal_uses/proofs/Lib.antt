pub mod Dead
pub mod Moves
pub mod Numbers
pub mod Made
pub mod Counted
pub mod Folders
pub mod Found
