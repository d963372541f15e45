-- Why: from the coefficients up to the highest to the list of all roots.
pub mod Listing
