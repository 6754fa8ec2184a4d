-- Marked numbers.
pub mod Marks
pub mod laws
