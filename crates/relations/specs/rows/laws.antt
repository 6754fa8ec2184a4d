-- Laws of rows.
pub mod Filled
