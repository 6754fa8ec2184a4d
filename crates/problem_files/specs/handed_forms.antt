-- The lines of a problem's file under the first two.
pub mod ProblemLines
