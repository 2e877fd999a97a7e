pub mod Bounded
pub mod Joined
pub mod Assembled
