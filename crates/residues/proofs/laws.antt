-- The laws of the definitions beside this folder.
pub mod of_children
pub mod Held
