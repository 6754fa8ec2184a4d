-- Reduced bases in an array.
pub mod Basis
pub mod insertion
pub mod spans
pub mod rows
