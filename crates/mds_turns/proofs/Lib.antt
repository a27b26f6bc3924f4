pub mod Follows
pub mod Prepared
pub mod Finishes
pub mod Standing
pub mod Taken
pub mod Dead
