-- The laws behind the placing of a row.
pub mod Sifting
