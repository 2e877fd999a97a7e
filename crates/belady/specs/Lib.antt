pub mod Ahead
pub mod Counts
pub mod Kept
pub mod Reported
pub mod Sifts
