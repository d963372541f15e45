-- What is meant: the call, and the roots of a table merged into the list.
pub mod Calls
pub mod Finishing
