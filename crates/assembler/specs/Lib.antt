pub mod Text
pub mod Labels
pub mod Lines
