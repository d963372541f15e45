-- What is meant: one map of the successive resultants.
pub mod Maps
pub mod Lending
pub mod Levels
pub mod Chains
pub mod Pairs
