pub mod BitsWithin
pub mod Situations
pub mod Naming
pub mod Pairs
