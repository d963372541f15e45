-- Why: the parts of a factor, their slots, the table that a step leaves, and two admitted outcomes.
pub mod Commons
pub mod Packing
pub mod Replacing
pub mod Outcomes
pub mod Coincide
