-- What the code's proofs cite.
pub mod Loops
pub mod Body
pub mod Told
