pub mod Batches
pub mod Stops
pub mod Faults
pub mod Log
