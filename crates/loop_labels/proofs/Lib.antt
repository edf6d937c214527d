pub mod Ends
pub mod Slots
pub mod ByRules
pub mod Endless
pub mod Counting
pub mod FirstSet
pub mod Sums
