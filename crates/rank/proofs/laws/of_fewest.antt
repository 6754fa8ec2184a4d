-- The laws behind Rank.
pub mod Least
