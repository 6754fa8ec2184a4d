-- Rank on numbers.
pub mod Rank
pub mod matrix_rank
pub mod fewest
