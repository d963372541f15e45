pub mod Rows
pub mod Field
pub mod Powers
pub mod Tables
pub mod Lent
pub mod Quadratics
