pub mod Steps
pub mod Samples
