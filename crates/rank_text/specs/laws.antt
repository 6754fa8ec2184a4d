-- The laws behind it.
pub mod Rank
