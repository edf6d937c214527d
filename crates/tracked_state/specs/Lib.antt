pub mod Tracked
pub mod Rules
pub mod Tracking
pub mod Learning
pub mod Along
