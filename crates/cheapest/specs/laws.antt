-- The laws behind the cheapest formula.
pub mod Members
pub mod Taking
pub mod Totals
pub mod Offers
