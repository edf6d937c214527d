pub mod Wanted
pub mod Refused
pub mod Worked
