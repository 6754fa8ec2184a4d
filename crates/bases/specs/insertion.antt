-- A new row placed among the rows of a reduced basis.
pub mod Placing
