-- Forms as words.
pub mod Layout
mod Examples
