pub mod Groups
pub mod Kept
