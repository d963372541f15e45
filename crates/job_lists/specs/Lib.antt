-- What is meant: the lines of a list of jobs, and the numbers of a line.
pub mod Lines
pub mod Words
pub mod Calls
