pub mod Headers
pub mod Kinds
pub mod Lines
pub mod Requests
pub mod Settings
pub mod Totals
