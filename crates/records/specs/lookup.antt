-- The look-up of an entry in a listing.
pub mod Lookup
pub mod laws
