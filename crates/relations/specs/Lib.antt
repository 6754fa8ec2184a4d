-- Short relations among the values of numbers.
pub mod pairs
pub mod rows
pub mod Relations
pub mod Onward
pub mod laws
