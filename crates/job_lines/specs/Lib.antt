pub mod Turn
pub mod Printing
