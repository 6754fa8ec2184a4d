-- The formulae of a space, counted and written as records.
pub mod Spread
