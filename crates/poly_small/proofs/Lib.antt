pub mod Ascending
pub mod LowDegrees
pub mod Cubics
pub mod Levels
pub mod Pieces
pub mod Trials
