-- The laws behind it.
pub mod Answered
pub mod Lines
