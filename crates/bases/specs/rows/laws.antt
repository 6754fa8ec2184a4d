-- The laws of rows and terms, with their proofs.
pub mod Rows
pub mod Digits
