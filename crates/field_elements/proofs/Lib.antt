pub mod Admitting
pub mod Mirror
pub mod Placing
pub mod Coincide
