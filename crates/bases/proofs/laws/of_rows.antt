-- The laws of rows and terms, with their proofs.
pub mod Layouts
pub mod Rest
pub mod Echelon
pub mod Named
pub mod Terms
pub mod Shown
