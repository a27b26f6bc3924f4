pub mod Many
pub mod Laid
mod Listing
mod Changes
pub mod Agrees
