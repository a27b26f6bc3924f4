pub mod Lists
pub mod Apart
pub mod Seen
pub mod Cuts
pub mod Deaths
pub mod Steps
