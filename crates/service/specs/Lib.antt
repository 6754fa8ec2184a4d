-- What the exported calls answer.
pub mod Service
pub mod Theorems
pub mod laws
pub mod check_program
