-- Why: the passes over slots, soundness by them, what is written, and what is decided before.
pub mod Passes
pub mod Summing
pub mod Finding
pub mod Appending
pub mod Laying
pub mod Judging
