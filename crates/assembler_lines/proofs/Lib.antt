pub mod Laws
pub mod Naming
pub mod Looking
pub mod Digits
pub mod Listing
pub mod Lengths
pub mod Writing
mod Examples
