-- What is meant: elements, registers and power sums.
pub mod Under
