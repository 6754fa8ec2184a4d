-- What the programs print of an input that is accepted.
pub mod Lines
pub mod Theorems
pub mod Worked
pub mod laws
