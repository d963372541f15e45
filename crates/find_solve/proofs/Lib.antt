-- Why: what was let in, the run of steps, the trace sums, and two admitted outcomes.
pub mod Running
pub mod Tracing
pub mod Admitting
pub mod Lowest
pub mod Direct
pub mod Coincide
