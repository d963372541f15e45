-- What is meant: the contract, and the places.
pub mod Places
pub mod Correcting
