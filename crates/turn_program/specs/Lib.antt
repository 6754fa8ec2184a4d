-- What the Turn program prints of an input.
pub mod TurnFile
pub mod TurnProgram
pub mod Theorems
pub mod Worked
pub mod laws
