pub mod BitLaws
pub mod Members
pub mod Bitwise
pub mod Shifts
pub mod Sums
pub mod Between
