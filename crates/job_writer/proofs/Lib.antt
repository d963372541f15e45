-- Why: the order of the roots, the bytes, the tests, the parts of the code, the answers, reading back.
pub mod RootOrder
pub mod Bytes
mod Admitting
mod Turns
mod Expanding
mod Recording
pub mod Coincide
pub mod Contract
pub mod Reading
pub mod Example
