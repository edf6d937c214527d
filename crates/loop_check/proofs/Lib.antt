pub mod Among
pub mod Leading
pub mod Going
pub mod Landing
pub mod Keeping
pub mod Bounds
pub mod Behind
pub mod Completing
