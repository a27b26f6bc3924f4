pub mod Ends
pub mod Event
pub mod Run
