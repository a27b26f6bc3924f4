pub mod Passes
pub mod Ready
pub mod Turns
pub mod Rounds
pub mod Asking
