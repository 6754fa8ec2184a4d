-- What becomes of an entry that the walk meets.
pub mod Noting
