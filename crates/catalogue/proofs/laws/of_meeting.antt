-- The laws of the definitions beside this folder.
pub mod Meeting
pub mod Cheapest
