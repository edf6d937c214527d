pub mod FieldBytes
pub mod Growing
pub mod Naming
pub mod Runs
pub mod Narrow
pub mod Positions
