pub mod Passes
pub mod Reasons
pub mod Stacks
pub mod Sums
