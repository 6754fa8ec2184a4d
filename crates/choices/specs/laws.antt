-- The laws behind the first formula.
pub mod Choosing
pub mod Picking
pub mod Writing
