-- Why: a word is told by its bytes, and what was packed comes back.
pub mod Bits
pub mod Contents
pub mod Ends
pub mod Shapes
pub mod Filling
pub mod Holding
pub mod Coincide
pub mod Contract
