-- The first formula of a space, and formulae in a buffer.
pub mod Choice
pub mod laws
