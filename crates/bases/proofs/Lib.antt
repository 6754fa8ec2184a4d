-- What the proofs on bases share.
mod Growing
pub mod laws
