pub mod Empty
pub mod Beginnings
pub mod Moves
