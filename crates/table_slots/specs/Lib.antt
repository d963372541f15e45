-- What is meant: which slot holds what, the passes over slots, and what is decided of a table by them.
pub mod Slots
pub mod Walk
pub mod Verdicts
