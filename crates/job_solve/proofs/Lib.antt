-- Why: what the reader accepts the engine takes.
pub mod Solving
