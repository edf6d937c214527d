pub mod Worked
pub mod Totals
pub mod Turning
