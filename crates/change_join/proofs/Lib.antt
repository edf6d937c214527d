pub mod Accepting
pub mod Both
pub mod Groups
pub mod Headers
pub mod JoinedChanges
pub mod Joints
pub mod Texts
