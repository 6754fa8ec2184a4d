-- Tables of numbers by value.
pub mod Table
pub mod laws
