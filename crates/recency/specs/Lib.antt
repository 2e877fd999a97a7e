pub mod Row
pub mod Hash
pub mod Sound
pub mod Outcome
