-- What the code's proofs cite.
pub mod Reading
pub mod Numeral
pub mod Line
pub mod Enough
