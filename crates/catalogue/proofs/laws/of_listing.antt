-- The laws of the definitions beside this folder.
pub mod Run
pub mod Listing
pub mod Placed
