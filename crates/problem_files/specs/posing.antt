-- The problem of a file.
pub mod Posing
pub mod Views
