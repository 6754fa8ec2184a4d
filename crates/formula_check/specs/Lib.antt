-- Formulae: what Check says.
pub mod Formula
pub mod Refusals
pub mod Replies
pub mod Buffers
pub mod sums
pub mod sides
pub mod verdicts
pub mod meaning
