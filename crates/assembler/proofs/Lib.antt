pub mod Labelling
pub mod Resolving
pub mod Assembling
pub mod Reading
pub mod Slots
