pub mod Name
pub mod Path
pub mod Context
pub mod Traces
