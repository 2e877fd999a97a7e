pub mod Told
pub mod Pieces
