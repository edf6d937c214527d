pub mod Failures
pub mod Labels
pub mod Rules
pub mod Meanings
pub mod Leads
pub mod Always
