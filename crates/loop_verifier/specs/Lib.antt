pub mod Labelled
pub mod Limit
