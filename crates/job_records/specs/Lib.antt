pub mod Layout
pub mod Cutoffs
pub mod Reading
pub mod Files
