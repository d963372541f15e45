-- Why: what is written, the monic polynomial, and numbers that are tried.
pub mod Writing
pub mod Leads
mod Trials
mod Groups
