-- What is meant: the field, plain trial and polynomials, which a reader must believe, and the routines that the code
-- follows.
pub mod Field
pub mod Trial
pub mod Polynomial
pub mod Routines
pub mod Multiplicity
