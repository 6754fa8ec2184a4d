-- What the proofs on names cite.
pub mod Same
pub mod Names
