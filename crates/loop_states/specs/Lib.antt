pub mod Contained
pub mod Leads
pub mod Sharper
pub mod Across
pub mod Rules
pub mod Within
