-- The lines of a formula under the first two.
pub mod Formula
pub mod Views
pub mod Buffered
pub mod laws
