pub mod Days
pub mod Claims
pub mod Headers
