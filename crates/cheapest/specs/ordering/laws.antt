-- The laws behind the order by price.
pub mod Placing
pub mod Keys
