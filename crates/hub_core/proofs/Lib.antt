pub mod Sizes
pub mod Opened
pub mod Sound
pub mod Streams
pub mod Running
pub mod Lags
pub mod Jobs
pub mod Places
