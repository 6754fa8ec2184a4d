-- The rows of a formula, shown.
pub mod Theorems
