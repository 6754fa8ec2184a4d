-- Printing and reading a problem's file.
pub mod ProblemText
pub mod laws
pub mod PrintThenRead
pub mod AcceptedOnly
