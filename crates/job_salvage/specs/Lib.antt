-- What is meant: the pieces of a damaged file, and the calls over them.
pub mod Pieces
pub mod Calls
pub mod Rows
