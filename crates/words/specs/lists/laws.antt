-- The laws behind lists handed in.
pub mod Standing
pub mod Refusals
