-- What the Formulae program prints of an input first.
pub mod Listed
pub mod Starts
pub mod laws
