pub mod Positions
pub mod Lines
pub mod Reads
pub mod Runs
pub mod Loads
pub mod Marks
