pub mod Cut
pub mod Direct
pub mod Example
pub mod Journal
pub mod Legal
pub mod Served
