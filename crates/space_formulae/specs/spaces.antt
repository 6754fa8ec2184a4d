-- The formulae of a space, on numbers.
pub mod Spaces
