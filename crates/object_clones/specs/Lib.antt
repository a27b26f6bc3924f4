pub mod Bytes
pub mod Extents
pub mod Purged
pub mod Listing
pub mod Objects
pub mod Files
pub mod Store
pub mod Stands
