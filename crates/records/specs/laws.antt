-- The laws of the definitions beside this folder.
pub mod Records
pub mod Ahead
pub mod Counted
