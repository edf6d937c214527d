pub mod Accepted
pub mod Codes
pub mod Filters
