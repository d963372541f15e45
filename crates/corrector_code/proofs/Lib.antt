-- Why: power sums, the key equation, completeness, and the laws over the numbers of field 11.
pub mod Sums
pub mod Words
pub mod Odd
pub mod Massey
pub mod Run
pub mod Locate
pub mod Complete
pub mod Check
pub mod Accept
pub mod Carry
pub mod Numbers
pub mod Values
pub mod Flips
pub mod Eleven
pub mod Same
