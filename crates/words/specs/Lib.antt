-- 64-bit words in lent buffers, and tests on masks.
pub mod Masks
pub mod Buffers
pub mod laws
pub mod lists
pub mod tables
