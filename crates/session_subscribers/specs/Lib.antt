pub mod Items
pub mod Holding
pub mod Streams
