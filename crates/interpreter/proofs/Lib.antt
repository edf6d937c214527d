pub mod Joined
pub mod Running
pub mod Stores
pub mod Registers
pub mod Covers
pub mod Following
pub mod Turning
