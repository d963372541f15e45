-- What is meant: the call, and its parts.
pub mod Calls
pub mod Checking
