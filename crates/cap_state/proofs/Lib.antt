pub mod Lists
pub mod Order
pub mod Found
pub mod Files
pub mod Edits
pub mod Apart
pub mod Writers
pub mod Kept
