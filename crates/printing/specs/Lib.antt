-- Numbers and names, printed.
pub mod Print
pub mod laws
pub mod fields
pub mod field_lists
pub mod refusals
pub mod pages
pub mod record_lines
