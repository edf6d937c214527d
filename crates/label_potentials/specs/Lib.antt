pub mod Views
pub mod Counts
pub mod Weights
