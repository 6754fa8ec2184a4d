-- The laws of pieces.
pub mod Pieces
