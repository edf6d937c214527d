pub mod Files
pub mod Line
pub mod Request
pub mod Said
pub mod Tags
