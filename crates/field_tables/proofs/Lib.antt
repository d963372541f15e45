pub mod Naming
pub mod Printed
pub mod Held
