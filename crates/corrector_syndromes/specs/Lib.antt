-- What is meant: the odd syndromes.
pub mod Syndromes
