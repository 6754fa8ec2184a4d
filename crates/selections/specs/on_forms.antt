-- Questions on a selection of a problem's generators.
pub mod Selected
pub mod Shown
