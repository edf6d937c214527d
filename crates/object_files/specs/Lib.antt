pub mod Header
pub mod Sections
pub mod Strings
pub mod Symbols
pub mod Relocations
pub mod Object
