pub mod Witness
pub mod Runs
pub mod More
