-- What the code's proofs cite.
pub mod Print
pub mod Digits
