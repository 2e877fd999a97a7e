pub mod Runs
pub mod Stopped
pub mod Whole
pub mod Schedule
