-- The rows of a formula, its products reduced once, and the terms of a sum.
pub mod Rows
pub mod Echelon
pub mod Terms
pub mod Layouts
pub mod Shown
pub mod laws
