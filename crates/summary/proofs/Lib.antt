pub mod Fractions
pub mod Hundreds
pub mod Reading
