-- The file of a formula, read.
pub mod FormulaFile
pub mod Lent
pub mod Sound
pub mod AcceptedSound
pub mod laws
pub mod lines
pub mod refusals
