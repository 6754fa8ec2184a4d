-- The records of formulae.
pub mod Keep
