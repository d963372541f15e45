-- The laws of the successive resultants, from the bottom up.

-- a commutative ring in which x + x = 0
pub mod Ring
-- values: f(x) = A(y) + x B(y), and the resultant
pub mod Values
-- lengths and leading coefficients
pub mod Shapes
-- of the numbers of a known field
pub mod Numbers
-- down one map
pub mod Descending
-- what the loops of one map hold at each turn
pub mod MapLoops
-- the quotient by one look-up
pub mod Quotients
-- two values side by side
pub mod Pairing
-- what the routines on the way down ask and leave
pub mod Steps
-- the numbers at the end of the chain
pub mod Trying
-- one map
pub mod Mapping
-- up and down the chain
pub mod Climbing
-- where a chain ends
pub mod Reaching
