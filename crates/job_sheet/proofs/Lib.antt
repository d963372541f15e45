-- Why: the entries are the outcomes and each is counted once, the highest, the sheets of joined files, one sheet for a
-- file; the code's loop; the lines that are printed.
pub mod Outcomes
pub mod AddUp
pub mod Front
pub mod Better
pub mod Compared
pub mod Peaks
pub mod Joined
pub mod Coincide
pub mod Contract
pub mod Example
pub mod Counts
pub mod Places
pub mod Lines
pub mod Solved
pub mod Readings
pub mod Turns
pub mod Texts
pub mod Bounds
