-- Rows that bound a rank.
pub mod Stretch
pub mod laws
