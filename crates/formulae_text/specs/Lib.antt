-- The formulae of an entry as text.
pub mod FormulaAnswers
pub mod laws
pub mod lines
