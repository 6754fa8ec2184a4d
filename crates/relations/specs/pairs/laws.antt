-- The laws of the definitions beside this folder.
pub mod Values
pub mod Link
pub mod Match
