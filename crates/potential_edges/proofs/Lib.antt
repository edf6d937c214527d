pub mod Products
pub mod AtLeast
pub mod Frame
pub mod Sources
pub mod Leads
pub mod Rests
