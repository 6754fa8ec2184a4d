-- The laws behind it.
pub mod Parts
