pub mod Names
pub mod Lengths
pub mod Sums
pub mod Following
pub mod Laws
