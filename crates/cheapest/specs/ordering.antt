-- Numbers in ascending order, and the generators by price.
pub mod laws
