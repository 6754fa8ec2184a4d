-- The laws of the texts.
pub mod Rank
