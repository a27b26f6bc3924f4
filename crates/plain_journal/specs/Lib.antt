pub mod Answers
pub mod Coverage
pub mod Entries
pub mod Example
pub mod Legal
pub mod Realms
pub mod Settled
pub mod Table
