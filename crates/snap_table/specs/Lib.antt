pub mod Op
pub mod Rising
pub mod Table
pub mod Fields
