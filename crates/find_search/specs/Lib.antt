-- What is meant: the call, and the elements that were tried.
pub mod Calls
pub mod Searching
