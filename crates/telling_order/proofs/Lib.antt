pub mod Lengths
pub mod Hearing
pub mod Orders
