pub mod Texts
pub mod Pieces
pub mod Windows
pub mod Large
pub mod Boundaries
pub mod Bytes
pub mod Spending
