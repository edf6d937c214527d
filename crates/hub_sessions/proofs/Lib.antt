pub mod Admitting
pub mod Conversing
pub mod Keeping
pub mod Making
pub mod Replayed
