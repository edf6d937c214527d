pub mod Safety
pub mod Linked
