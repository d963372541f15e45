-- Why: the known fields, the cutoff in force, refusals 1 to 5, the search for the largest coefficient, the lent lists.
pub mod Fields
pub mod Cutoff
pub mod Polynomials
pub mod PolynomialTests
pub mod Seeking
pub mod RootMemory
