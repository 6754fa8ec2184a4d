-- The place of a value in a table.
pub mod Bucket
