pub mod Listed
pub mod Trees
pub mod Lives
pub mod Moments
