-- Why: the loops, digits of additive maps, elimination, the sums of vectors, the roots, the call.
pub mod RowLoops
pub mod ListLoops
pub mod Admitting
pub mod Maps
pub mod Turns
pub mod Vectors
pub mod Sums
pub mod Marked
pub mod RootSpace
pub mod Answering
pub mod RootLaws
pub mod DensePolynomial
pub mod Coincide
