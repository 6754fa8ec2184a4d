-- Inner lists of a line.
pub mod Inner
pub mod laws
