pub mod Same
pub mod Words
pub mod Leading
pub mod Wholes
pub mod Edges
pub mod Gathering
