pub mod Values
pub mod Least
