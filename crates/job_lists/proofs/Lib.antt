-- Why: where a line ends, its numbers byte by byte, what it asks for, and what follows from the contract.
pub mod Ends
pub mod Taking
pub mod Asking
pub mod Coincide
pub mod Contract
pub mod Back
pub mod Example
