-- The bytes and numbers of a file.
pub mod Limits
pub mod Reading
pub mod Numeral
pub mod Line
pub mod Views
pub mod laws
pub mod heads
