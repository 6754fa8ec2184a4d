-- catalogue: its parts.
mod Numbers
mod Going
mod Root
pub mod Theorems
pub mod laws
