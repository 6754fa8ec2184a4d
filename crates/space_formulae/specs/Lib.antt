-- The formulae of a space of a problem.
pub mod Replies
pub mod formula_records
pub mod enumeration
pub mod spaces
