pub mod Potential
pub mod Labels
pub mod Rules
pub mod Bounded
pub mod Samples
pub mod FirstSet
