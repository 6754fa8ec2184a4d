-- What the proofs on residues share.
mod Loops
pub mod laws
