-- Why: from lists of entries, through groups and slots, to demand 3.

-- steps on entries: cuts, how they are counted, and that they are groups
pub mod Lists
pub mod Cut
pub mod Counting
pub mod Grouped
pub mod Steps
pub mod Carry
-- slots: the limit by a table's size, layouts, soundness, soundness in one pass
pub mod Sizes
pub mod Layouts
pub mod Soundness
pub mod Scanning
-- trace bits in the known fields; a step keeps every sound table sound; where it writes
pub mod TraceBits
pub mod Keeping
pub mod Places
-- begun tables and DEMAND 3
pub mod Begun
pub mod Finish
pub mod Demand
-- the house default over its value, and what a change request asks of the theory (docs/CHANGES.md: M-112)
pub mod HouseDefault
pub mod Picks
-- figures, by evaluation
mod Example
