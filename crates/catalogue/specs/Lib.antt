-- Catalogue on numbers.
pub mod Catalogue
pub mod noting
pub mod walk
pub mod meeting
pub mod listing
