pub mod Answering
pub mod Copies
pub mod Faults
pub mod Texts
