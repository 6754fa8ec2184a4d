-- All entries for k met, from the space that the targets span.
pub mod Meeting
pub mod Cheapest
