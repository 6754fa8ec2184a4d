-- Numbers that have to be looked at beside a value.
pub mod Join
pub mod laws
