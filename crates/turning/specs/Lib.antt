-- Middle products from full ones.
pub mod Turning
pub mod Lent
pub mod Examples
