-- Why: the tests, the roots merged into the list, and two admitted outcomes.
pub mod FinishTests
pub mod Merging
pub mod Coincide
