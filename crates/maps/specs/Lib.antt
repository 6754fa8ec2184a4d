-- Bilinear maps: their meaning on bits, their target forms, their generators, and what these cost.
pub mod Textbook
pub mod Target
pub mod Meaning
pub mod Squares
pub mod Accepted
pub mod Generators
pub mod Costs
pub mod laws
pub mod form_lists
