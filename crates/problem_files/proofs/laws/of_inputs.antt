-- The laws behind it.
pub mod Handed
pub mod Input
