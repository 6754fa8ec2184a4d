-- The laws behind the lower bound.
pub mod Matrix
pub mod Loops
