pub mod Agreeing
mod Logs11
pub mod Field11
