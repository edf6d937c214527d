pub mod Cutting
pub mod Laying
pub mod Showing
pub mod Drafting
pub mod Taking
pub mod Between
pub mod Uniform
pub mod OneVersion
