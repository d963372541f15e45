-- What is lent, and what each routine leaves.
pub mod Lent
pub mod Asking
pub mod Division
pub mod Monic
pub mod Values
