-- The entries for k, counted and written as records.
pub mod Listing
