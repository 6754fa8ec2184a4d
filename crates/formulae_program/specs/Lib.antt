-- What the Formulae program prints of an input.
pub mod FormulaeProgram
pub mod Theorems
pub mod Worked
pub mod laws
pub mod first_part
pub mod entry_parts
pub mod parts
