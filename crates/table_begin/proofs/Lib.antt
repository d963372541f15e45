-- Why: the part that splits, the table, what was let in, and two admitted outcomes.
pub mod SplitPart
pub mod Writing
pub mod Coincide
