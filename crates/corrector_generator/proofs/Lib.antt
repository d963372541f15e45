-- Why: a row of a table is what comes back from the top, and so is the sum of five; where the generators are zero.
pub mod Bases
pub mod Tables
pub mod Zeros
