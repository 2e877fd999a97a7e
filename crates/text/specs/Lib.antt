pub mod Texts
pub mod Readers
pub mod Messages
