pub mod Sound
pub mod Fields
pub mod Reached
