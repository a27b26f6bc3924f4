pub mod Buffer
pub mod Files
pub mod Due
pub mod Example
