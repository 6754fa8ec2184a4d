-- The laws behind it.
pub mod Formulae
