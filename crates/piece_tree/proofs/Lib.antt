pub mod Lists
pub mod Filled
pub mod Cutting
pub mod Windows
pub mod Shorts
pub mod Reaching
pub mod Walking
