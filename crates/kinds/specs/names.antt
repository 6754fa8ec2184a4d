-- The laws of names.
pub mod laws
