pub mod Indexes
pub mod Readings
pub mod Judging
