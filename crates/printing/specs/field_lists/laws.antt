-- The laws of inner lists.
pub mod Inner
