-- The fewest products, on forms.
pub mod Fewest
