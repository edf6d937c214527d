pub mod Inserted
pub mod Store
