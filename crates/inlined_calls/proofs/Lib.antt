pub mod Steps
pub mod Straight
pub mod Laws
pub mod Samples
pub mod Bytes
pub mod Kept
