-- The later pairs of one number.
pub mod Rows
pub mod laws
