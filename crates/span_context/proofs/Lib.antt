pub mod ContextFits
pub mod FieldAt
