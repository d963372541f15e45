-- What is meant: what each outcome of a job file counts, the figures of many, the call that gives them, and the text.
pub mod Entries
pub mod Figures
pub mod Highest
pub mod Joined
pub mod Calls
pub mod Adding
pub mod Text
