-- The search along heavy values and short relations.
pub mod Find
pub mod Relate
pub mod laws
