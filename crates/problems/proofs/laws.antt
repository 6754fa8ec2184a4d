-- The laws behind the reading of a problem.
pub mod Refusals
pub mod Taken
pub mod Asked
pub mod Laying
pub mod Handed
pub mod Numbered
pub mod of_prices
