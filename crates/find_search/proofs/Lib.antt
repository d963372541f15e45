-- Why: the elements that were tried, what was let in, and two admitted outcomes.
pub mod Trying
pub mod Words
pub mod Admitting
pub mod Coincide
