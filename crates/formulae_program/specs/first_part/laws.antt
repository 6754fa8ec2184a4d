-- The laws behind it.
pub mod Start
