pub mod Solved
pub mod Turning
pub mod Printing
pub mod Coincide
pub mod Example
