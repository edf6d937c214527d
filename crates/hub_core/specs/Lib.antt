pub mod Accepting
pub mod Machine
pub mod Counting
pub mod Runs
pub mod Consistent
pub mod Opened
