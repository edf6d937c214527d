pub mod Signs
pub mod Listing
pub mod Numerals
pub mod Fitting
pub mod Again
pub mod Whole
pub mod Joining
