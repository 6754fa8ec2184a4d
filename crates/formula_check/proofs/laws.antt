-- The laws behind Check.
pub mod Loops
pub mod Admitted
pub mod Admission
pub mod Numbers
pub mod Buffers
pub mod of_meaning
pub mod of_sides
pub mod of_sums
