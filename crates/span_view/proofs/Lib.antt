pub mod ContextRows
pub mod Views
