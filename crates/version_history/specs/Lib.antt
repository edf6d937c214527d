pub mod Tokens
pub mod Before
