-- The steps of the theorem.
pub mod ListBack
pub mod FormsBack
pub mod LinesOnly
