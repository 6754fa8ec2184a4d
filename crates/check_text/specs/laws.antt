-- The laws behind it.
pub mod Replying
pub mod Says
