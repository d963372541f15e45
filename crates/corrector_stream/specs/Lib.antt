-- What is meant: a word of a stream, the contracts, and what the parts of the code do.
pub mod Words
pub mod Calls
pub mod Parts
