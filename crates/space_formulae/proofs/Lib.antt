-- space_formulae: its parts.
mod Keeping
mod Going
pub mod Theorems
pub mod laws
