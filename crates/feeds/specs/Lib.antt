pub mod Verdicts
pub mod Batches
pub mod Kept
pub mod Orderly
pub mod Stream
pub mod Promise
pub mod Feed
