pub mod Calls
pub mod Commas
pub mod Numbered
pub mod SpanPrinting
pub mod Some
pub mod PrintedForms
