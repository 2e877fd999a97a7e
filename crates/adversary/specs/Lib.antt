pub mod Places
pub mod Begins
pub mod Rules
pub mod Steps
pub mod Moves
pub mod Runs
pub mod Beside
