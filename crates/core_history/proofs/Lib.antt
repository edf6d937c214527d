pub mod Recording
pub mod Starting
pub mod Counting
pub mod Staying
