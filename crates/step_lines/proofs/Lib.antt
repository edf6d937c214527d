pub mod Tracing
pub mod Stored
pub mod Samples
