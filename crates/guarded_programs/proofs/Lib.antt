pub mod Known
pub mod Ways
pub mod Fine
pub mod Walks
pub mod Sampled
pub mod Question
pub mod Refused
