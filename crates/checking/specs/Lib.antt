pub mod Checking
pub mod Pieces
