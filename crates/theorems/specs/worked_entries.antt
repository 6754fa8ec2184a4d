-- Worked entries.
pub mod Table
