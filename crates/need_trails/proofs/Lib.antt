pub mod Fits
pub mod Placed
pub mod Along
pub mod Slots
pub mod Going
pub mod Texts
