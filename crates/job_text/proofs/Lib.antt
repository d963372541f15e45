-- Why: the digits of a number, what was written where, and two admitted outcomes.
pub mod Digits
pub mod Writing
mod Lending
pub mod Coincide
pub mod Example
pub mod Lengths
