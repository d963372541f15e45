-- What the powers and trace sums may take for granted, and what they leave.
pub mod Asking
pub mod Powers
