pub mod Steps
pub mod Outside
