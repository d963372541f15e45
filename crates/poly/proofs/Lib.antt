-- The laws of the routines, from the bottom up.

-- lists: parts of a slice, loops that store from the front, sums
pub mod Parts
pub mod Sums
-- logs and rows over lent tables
pub mod Logs
-- what the loops hold at each turn
pub mod RowLoops
pub mod Divisions
pub mod Remainders
pub mod Monics
pub mod Horner
pub mod HornerFour
-- the product over roots: what it is, and what its loops hold at each turn
pub mod RootProducts
pub mod Stretching
pub mod Multiplying
