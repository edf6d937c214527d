pub mod Rows
pub mod Along
pub mod Putting
pub mod Walking
pub mod Standing
pub mod Paying
pub mod Linked
