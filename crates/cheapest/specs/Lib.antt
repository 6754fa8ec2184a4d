-- The cheapest formula of a space, and the better of two.
pub mod Offers
pub mod ordering
pub mod laws
