pub mod Packed
pub mod Bytes
pub mod Lines
pub mod Backs
pub mod Parts
