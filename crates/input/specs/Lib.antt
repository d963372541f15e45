-- What is meant: the limit, the cutoff in force, which polynomials are let in, and the lists that calls are lent.
pub mod Limit
pub mod Cutoff
pub mod Polynomials
pub mod Values
pub mod RootMemory
