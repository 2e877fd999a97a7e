pub mod Names
pub mod Arguments
pub mod Places
