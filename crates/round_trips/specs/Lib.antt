-- round_trips: its parts.
pub mod formulae
pub mod problems
