pub mod Asking
mod Removing
mod Counting
