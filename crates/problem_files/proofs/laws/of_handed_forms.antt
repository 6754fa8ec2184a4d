-- What the code's proofs cite.
pub mod Lines
