-- Which numbers a walk goes on with.
pub mod Sieve
pub mod laws
pub mod heavy_search
pub mod join
pub mod dead_numbers
pub mod marked_numbers
