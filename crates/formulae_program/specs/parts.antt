-- What is printed, part by part.
pub mod Parts
pub mod laws
