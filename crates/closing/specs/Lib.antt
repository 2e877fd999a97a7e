pub mod Summed
pub mod Drawn
