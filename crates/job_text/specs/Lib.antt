-- What is meant: the text of a line.
pub mod Lines
