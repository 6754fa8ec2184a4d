-- What the Formulae program prints of an entry.
pub mod EntryPages
pub mod laws
