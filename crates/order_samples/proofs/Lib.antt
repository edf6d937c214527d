pub mod Structured
pub mod Sampled
