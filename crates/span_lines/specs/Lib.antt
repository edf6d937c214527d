pub mod Pieces
pub mod SpanLines
pub mod Writes
