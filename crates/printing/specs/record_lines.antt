-- The lines of records.
pub mod RecordLines
pub mod laws
