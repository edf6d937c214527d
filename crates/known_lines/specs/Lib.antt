pub mod KnownLines
pub mod Worked
