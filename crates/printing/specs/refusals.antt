-- A page of text.
pub mod Pages
pub mod laws
