-- Laws of the join.
pub mod Stored
pub mod Steps
pub mod Places
