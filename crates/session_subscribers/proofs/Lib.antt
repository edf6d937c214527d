pub mod Givings
pub mod Pulls
pub mod Refusals
pub mod Versions
