-- What is meant: a number with its digits from 11 on folded back.
pub mod Entries
