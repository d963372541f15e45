-- Why: the loops, the registers of a run, and the squares.
pub mod Loops
pub mod Fine
pub mod Turns
pub mod Squares
