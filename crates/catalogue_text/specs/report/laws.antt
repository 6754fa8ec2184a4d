-- The laws of the text.
pub mod Catalogue
