-- Why an acceptable claim settles the roots, and why there is one.
pub mod Products
pub mod Degrees
pub mod ShortBezout
pub mod Remainders
pub mod TheRemainder
pub mod Complete
pub mod ZerosIgnored
pub mod Claimable
pub mod Combinations
pub mod OneClaim
-- a claim, by evaluation
mod Example
