pub mod Gives
pub mod Allows
pub mod Outlines
pub mod Sample
