-- What is meant: words, the key equation, the way to a correction, and words as numbers.
pub mod Word
pub mod Key
pub mod Correct
pub mod Digits
pub mod Eleven
