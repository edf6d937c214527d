pub mod Joined
pub mod Groups
pub mod Joints
pub mod Replacing
