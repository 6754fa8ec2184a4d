-- The laws of the definitions beside this folder, with their proofs. A reader who believes the checker needs only their statements.
pub mod Sum
pub mod Value
pub mod Target
pub mod Generators
