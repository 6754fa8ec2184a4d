-- What is printed of a formula is read back, and nothing else is accepted. The text itself: formula_text.
pub mod laws
pub mod PrintThenRead
pub mod AcceptedOnly
pub mod Worked
