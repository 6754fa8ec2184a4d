-- A text handed over on a lent page.
pub mod Printed
pub mod laws
