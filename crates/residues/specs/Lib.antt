-- Residues of the generators.
pub mod Room
pub mod Mapped
pub mod Taking
pub mod children
