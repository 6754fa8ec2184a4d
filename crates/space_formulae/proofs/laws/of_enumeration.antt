-- The laws of the definitions beside this folder.
pub mod Spread
