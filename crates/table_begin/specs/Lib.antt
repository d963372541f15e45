pub mod Calls
pub mod SplitPart
