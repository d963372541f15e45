pub mod Order
pub mod Numbers
pub mod Admitting
pub mod Told
