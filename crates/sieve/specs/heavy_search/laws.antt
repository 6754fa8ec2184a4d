-- The laws of the definitions beside this folder.
pub mod Find
pub mod Light
pub mod Descend
pub mod Relate
pub mod Size
pub mod Step
pub mod Pairs
pub mod Near
pub mod Sweep
pub mod Relating
