-- The walk that finds every entry.
pub mod Walk
