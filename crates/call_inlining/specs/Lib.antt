pub mod Checked
pub mod Places
