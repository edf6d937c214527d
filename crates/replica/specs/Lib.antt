pub mod Messages
pub mod Knowing
pub mod Readiness
pub mod Buffers
pub mod Replicas
