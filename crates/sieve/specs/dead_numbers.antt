-- Flags of the numbers that a search leaves out.
pub mod Dead
pub mod laws
