pub mod Counts
pub mod Refused
pub mod Stacked
