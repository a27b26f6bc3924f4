pub mod Handles
pub mod Kept
pub mod Uses
pub mod Rising
pub mod Fields
