-- The laws behind forms written to a lent buffer.
pub mod Filling
