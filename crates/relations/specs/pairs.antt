-- Pairs of numbers by the sum of their values.
pub mod Bucket
pub mod Pairs
pub mod Linking
pub mod laws
