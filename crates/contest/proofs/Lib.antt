pub mod Going
pub mod Telling
