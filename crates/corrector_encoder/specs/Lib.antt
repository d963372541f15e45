-- What is meant: the contract, and bytes added.
pub mod Bytes
pub mod Encoding
