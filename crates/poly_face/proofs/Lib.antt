-- Why: a table that was copied to lent room stands there.
pub mod Copies
