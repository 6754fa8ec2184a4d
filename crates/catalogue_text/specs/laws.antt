-- The laws behind it.
pub mod Catalogue
