pub mod Refusals
pub mod Stops
pub mod Rows
pub mod Outcomes
pub mod Promises
