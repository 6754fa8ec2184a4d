-- Residues of the generators at a space, and children that lead nowhere.
pub mod Residues
pub mod Barren
pub mod Found
pub mod Weighed
pub mod Relation
