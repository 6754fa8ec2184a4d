-- The texts that a Check prints.
pub mod CheckText
pub mod CheckTextLong
pub mod Worked
pub mod laws
