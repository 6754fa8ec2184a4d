-- The laws behind the questions on selections.
pub mod of_on_forms
