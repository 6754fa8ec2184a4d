-- What the programs print of an input.
pub mod Programs
pub mod laws
pub mod meaning
