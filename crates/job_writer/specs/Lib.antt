-- What is meant: the record of given roots, the call that writes it, and what its parts leave.
pub mod Records
pub mod Calls
pub mod Writing
