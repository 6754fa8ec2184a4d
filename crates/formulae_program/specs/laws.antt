-- The laws behind it.
pub mod Shown
pub mod Lines
