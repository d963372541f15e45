-- What is meant: the list that is written, and the steps of a list.
pub mod Listing
pub mod Steps
