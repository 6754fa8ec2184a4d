-- Products as forms.
pub mod Product
pub mod laws
