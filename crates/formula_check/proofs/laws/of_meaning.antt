-- Laws of the definitions of specs/.
pub mod Theorems
pub mod Meaning
pub mod Tensor
