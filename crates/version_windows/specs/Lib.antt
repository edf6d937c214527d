pub mod Joined
pub mod Step
pub mod Places
pub mod Touches
pub mod Walked
pub mod Edges
pub mod Neighbors
