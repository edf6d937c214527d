pub mod Calls
pub mod Holdings
pub mod Texts
pub mod Sending
