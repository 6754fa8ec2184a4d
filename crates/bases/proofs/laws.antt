-- The laws behind the placing of a row.
pub mod of_insertion
pub mod of_rows
pub mod of_spans
