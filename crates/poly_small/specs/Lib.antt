pub mod Roots
pub mod Parting
pub mod Guessing
