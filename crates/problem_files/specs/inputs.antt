-- The input of a program that answers a problem.
pub mod Inputs
