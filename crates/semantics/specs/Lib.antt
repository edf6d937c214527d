pub mod Value
pub mod State
pub mod Memory
pub mod Step
pub mod Outcomes
pub mod Safe
pub mod Samples
