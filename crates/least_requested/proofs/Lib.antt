pub mod Leasts
pub mod Pairs
pub mod Capped
pub mod Requests
