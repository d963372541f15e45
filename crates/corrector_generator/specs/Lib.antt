-- What is meant: the generators, and what comes back from the top.
pub mod Polynomials
pub mod Generators
