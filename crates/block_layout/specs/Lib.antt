pub mod Meaning
pub mod Loops
pub mod Ranks
pub mod Structure
pub mod Kept
pub mod Refused
pub mod Rooms
pub mod Spread
