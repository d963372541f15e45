pub mod Lists
pub mod Bounded
pub mod Ordered
pub mod Filling
mod Stores
mod Raising
pub mod Storing
mod Passes
mod Inserts
