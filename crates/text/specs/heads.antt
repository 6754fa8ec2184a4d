-- The first two lines of a file.
pub mod Head
pub mod Views
pub mod laws
