-- The laws behind the exported calls.
pub mod Reading
pub mod Numbers
