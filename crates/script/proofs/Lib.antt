pub mod Digit
pub mod Narrow
