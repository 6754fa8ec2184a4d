-- Document 01's third demand, over Catalogue and Rank together.
pub mod Theorems
