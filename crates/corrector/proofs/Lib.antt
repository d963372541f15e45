-- Why: bits and bytes, places, what decides, what the contract says, and two admitted outcomes.
pub mod Reordering
pub mod Bits
pub mod Blocks
pub mod Marking
pub mod Deciding
pub mod Walking
pub mod Finding
pub mod Calling
pub mod Outcomes
pub mod Coincide
pub mod Contract
