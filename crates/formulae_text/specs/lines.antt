-- The lines of an entry's formulae.
pub mod FormulaLines
pub mod laws
