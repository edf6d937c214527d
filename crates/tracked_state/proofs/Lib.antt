pub mod Pairs
pub mod Branches
pub mod Parts
pub mod Hearing
pub mod Learned
pub mod Along
