-- Why: exactly one codeword has the data of a word, and the code finds it.
pub mod Cosets
pub mod Unique
pub mod Adding
pub mod Coincide
pub mod Contract
pub mod Loops
