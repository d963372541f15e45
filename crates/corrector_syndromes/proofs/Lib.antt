-- Why: the powers, and the values.
pub mod Adding
pub mod Entries
pub mod Remainders
