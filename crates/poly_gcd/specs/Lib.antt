-- What Euclid's loop may take for granted, and what it leaves.
pub mod Euclid
pub mod Asking
