pub mod OneTwo
pub mod Walks
pub mod Orders
