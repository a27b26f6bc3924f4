pub mod Files
pub mod Rising
