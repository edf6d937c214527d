pub mod Numbers
pub mod Contents
pub mod Partners
pub mod Inclusion
