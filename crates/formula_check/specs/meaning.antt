-- What Check's reply means.
pub mod Meaning
pub mod Tensor
