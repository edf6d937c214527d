pub mod Spans
pub mod Version
pub mod Taken
pub mod Window
pub mod Edges
