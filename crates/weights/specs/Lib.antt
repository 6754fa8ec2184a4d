-- Weights of the values of the generators, in a table by value.
pub mod Table
pub mod Enter
pub mod laws
pub mod slots
pub mod rank_rows
