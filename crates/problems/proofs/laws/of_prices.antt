-- Laws of the definitions of specs/.
pub mod Theorems
pub mod Taken
pub mod Filling
pub mod Laying
pub mod Handed
pub mod Numbered
