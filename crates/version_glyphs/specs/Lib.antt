pub mod Glyphs
pub mod Laid
pub mod Made
pub mod Replacements
