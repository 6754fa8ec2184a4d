-- The matrix of a form, and a lower bound for the number of products.
pub mod Matrix
