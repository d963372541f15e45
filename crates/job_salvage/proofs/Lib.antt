-- Why: which bytes are kept, the pieces of a file, the loops, and what follows for the whole file.
pub mod Keeping
pub mod Pieces
pub mod Whole
pub mod Turns
pub mod Coincide
pub mod Example
pub mod Rows
pub mod Contract
