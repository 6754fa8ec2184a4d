-- Pieces of a text in a lent buffer, and a text handed over whole.
pub mod Piece
pub mod Fields
pub mod RefusedText
pub mod Written
pub mod laws
