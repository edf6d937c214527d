pub mod Calls
pub mod Inlined
pub mod Samples
pub mod Kept
