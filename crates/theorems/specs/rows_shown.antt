-- Rows and terms.
pub mod Theorems
