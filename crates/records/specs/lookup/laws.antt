-- The laws behind the look-up.
pub mod Lookup
