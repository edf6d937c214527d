pub mod Sums
pub mod Held
pub mod Weighing
