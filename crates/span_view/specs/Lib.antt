pub mod Views
pub mod ContextOf
