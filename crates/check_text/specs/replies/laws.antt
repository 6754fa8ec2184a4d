-- Proofs about writing a text piece by piece.
pub mod Pieces
