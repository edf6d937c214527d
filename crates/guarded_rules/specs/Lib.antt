pub mod Facts
pub mod Keeps
pub mod Says
pub mod Sums
pub mod Tests
pub mod Values
pub mod Steps
pub mod Stack
