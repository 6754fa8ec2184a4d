-- The records of the entries.
pub mod Length
pub mod Records
pub mod Keep
pub mod laws
pub mod lookup
