pub mod Latest
pub mod Ends
pub mod Refused
