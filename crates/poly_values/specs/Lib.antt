-- What is meant, from the bottom up. Nothing here has to be believed: the plain search's contract is `roots_at`, by
-- evaluation.
--   Transform   the transform over any field: levels, points of a coset, butterflies
--   Basis       the basis of the transform
--   Blocks      any number of coefficients in the basis, and how a polynomial comes into it
--   Planes      elements as bit planes, and what the routines leave in a row of vectors
--   Tables      what the constant tables hold; `Values`: the values at every element
pub mod Transform
pub mod Basis
pub mod Blocks
pub mod Planes
pub mod Tables
