-- Why: the roots taken out, Euclid's algorithm, u and v, and the call.

-- lists
mod Fitting
-- the roots, and the remainder of z^(2^m) + z
mod Powering
-- the cofactor of the roots
mod Splitting
-- Euclid's algorithm
mod Uniting
-- u and v
mod Pairing
-- the call
mod Making
-- what the contract says
pub mod Coincide
pub mod Contract
