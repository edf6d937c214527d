pub mod Serving
pub mod TurnedAway
