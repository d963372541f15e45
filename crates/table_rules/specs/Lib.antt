-- What is meant: steps on a list of entries, the groups of demand 3, the slots of the work table, and what begin, a
-- step and finish make of a table.
pub mod Entries
pub mod Groups
pub mod Layout
pub mod Table
pub mod Sizes
pub mod Splitting
pub mod Places
pub mod Demand
