-- The laws behind the programs.
pub mod Steps
