-- The rooms of the run.
pub mod Rooms
