-- Why: division four bytes at a time, by any generator; digits cut one by one; the remainder at a strength.
pub mod Dividing
pub mod Lowering
pub mod Loops
pub mod Strengths
