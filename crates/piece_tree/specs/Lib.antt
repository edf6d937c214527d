pub mod Nodes
pub mod Spots
pub mod Budgets
