-- What is meant: a claim of roots, when it is acceptable, and when it is refused.
pub mod Claims
pub mod Admitting
