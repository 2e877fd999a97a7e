pub mod Contest
pub mod Asked
pub mod Faults
