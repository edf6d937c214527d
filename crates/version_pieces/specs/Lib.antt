pub mod Along
pub mod Putting
pub mod Alike
pub mod Links
pub mod Budgets
