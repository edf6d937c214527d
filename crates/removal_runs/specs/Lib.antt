pub mod Apart
pub mod Removals
pub mod IdSets
pub mod Open
