-- Why: the tests, the shape of a claim, and the sums of products.

-- the refusals
pub mod Asking
-- roots and the numbers beside them
mod Tallying
mod Spreading
-- products
pub mod Adding
mod Residues
-- the comparisons
pub mod Weighing
-- the answer
mod Judging
-- what the contract says
pub mod Coincide
pub mod Contract
