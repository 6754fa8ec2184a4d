-- What the code's proofs cite, and what an accepted file has been through.
pub mod FormulaFile
pub mod Numbers
pub mod Held
pub mod Handed
pub mod Roomy
