-- Why: what the loops hold at each turn, how they start, and what the trace sums mean in the words of the theory.
pub mod PowerLoops
pub mod TraceLoops
pub mod Starts
pub mod TraceValues
