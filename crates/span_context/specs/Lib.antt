pub mod Context
pub mod ContextField
pub mod Profile
