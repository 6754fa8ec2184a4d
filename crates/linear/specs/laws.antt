-- The laws of the definitions beside this folder, with their proofs. A reader who believes the checker needs only their statements.
pub mod Space
pub mod Span
pub mod Finite
pub mod Bit
pub mod Planes
pub mod Clash
