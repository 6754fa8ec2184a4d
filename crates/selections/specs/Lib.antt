-- Questions on a selection of generators.
pub mod Selections
pub mod Theorems
pub mod Examples
pub mod on_forms
