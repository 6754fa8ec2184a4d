-- The masks of one side.
pub mod Sides
