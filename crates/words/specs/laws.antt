-- Proofs about masks and buffers.
pub mod Masks
pub mod Buffers
pub mod Scan
pub mod Blank
