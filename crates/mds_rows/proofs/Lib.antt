pub mod Plain
pub mod Rules
pub mod Quiet
pub mod Back
pub mod Turning
pub mod Kept
