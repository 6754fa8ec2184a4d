-- The values of the definitions.
mod Values
