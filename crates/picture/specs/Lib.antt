pub mod Scaled
pub mod Drawn
pub mod Pictured
pub mod Undrawn
