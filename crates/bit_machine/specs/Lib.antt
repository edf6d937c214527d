pub mod Bits
pub mod Machine
