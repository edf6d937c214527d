pub mod Mark
pub mod Marking
pub mod Bearing
pub mod Telling
pub mod Copies
