pub mod Bearing
pub mod Landing
pub mod Ahead
pub mod Sharpening
pub mod Edges
pub mod ToldAs
