-- The file of a problem, read.
pub mod ProblemFile
pub mod Lent
pub mod list_lines
pub mod handed_forms
pub mod posing
pub mod judging
pub mod inputs
