-- What is meant: affine polynomials and their roots, the call, and what its parts leave.
pub mod Affine
pub mod Systems
pub mod Spaces
pub mod Calls
