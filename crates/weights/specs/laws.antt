-- The laws of the definitions beside this folder.
pub mod Seek
pub mod Enter
pub mod Bound
pub mod Fill
