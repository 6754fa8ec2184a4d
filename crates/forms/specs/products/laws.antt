-- The laws of products.
pub mod Product
