-- What is meant: the remainder at a strength.
pub mod Remainder
