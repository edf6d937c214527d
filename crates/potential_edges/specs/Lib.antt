pub mod Same
pub mod Leasts
pub mod Sources
pub mod Ahead
pub mod Edges
