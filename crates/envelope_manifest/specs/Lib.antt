pub mod Piece
pub mod Manifest
pub mod Body
