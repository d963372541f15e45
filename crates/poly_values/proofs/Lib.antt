-- Why: from the bottom up.
-- lists: tables, zeros, places of sums
pub mod Lists
pub mod Made
-- the transform over an abstract field, and its image under a map
pub mod Transform
pub mod Image
-- the basis: steps and levels; over elements, then over numbers
pub mod Basis
pub mod Numbers
-- any number of coefficients in it; over elements, then over numbers
pub mod Blocks
pub mod BlockNumbers
-- bit planes: what every lane does
pub mod Planes
pub mod Scalars
-- parts of slices that come back
pub mod Tail
pub mod Halves
-- rows of vectors, and their lanes
pub mod Rows
pub mod Lanes
-- the product, in place
pub mod Products
-- the tables, tested whole
pub mod Multipliers
-- the first levels, from coefficients
pub mod Starting
-- multiples by two digits at a time
pub mod Windows
pub mod Levels
-- the values at every element
pub mod Finishing
