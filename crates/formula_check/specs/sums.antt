-- The parts of a formula.
pub mod Sums
pub mod Sharing
pub mod Examples
