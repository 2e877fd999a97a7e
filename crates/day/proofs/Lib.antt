pub mod Turned
pub mod Lines
pub mod Decoded
pub mod Keeping
pub mod Going
pub mod Reporting
pub mod Examples
