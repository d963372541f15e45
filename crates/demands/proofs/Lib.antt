-- The three demands, that the three ways agree, and what is promised of the block corrector and encoder, of salvage, of the
-- writer of records, of the monthly sheet and of the check and the making of a claim.
pub mod Agreement
pub mod Demand1
pub mod Demand2
pub mod Engines
pub mod Demand2Affine
pub mod Demand3
pub mod Cutoffs
pub mod Corrector
pub mod Encoder
pub mod Salvage
pub mod Writer
pub mod Sheet
pub mod Claims
