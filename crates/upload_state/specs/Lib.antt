pub mod Piece
pub mod Reference
pub mod Started
