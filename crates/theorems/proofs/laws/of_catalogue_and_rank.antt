-- What an accepted Catalogue and an accepted Rank mean.
pub mod Theorems
