-- Forms written to a lent buffer.
pub mod Fills
pub mod laws
