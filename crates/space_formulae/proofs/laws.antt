-- The laws of the definitions beside this folder.
pub mod of_enumeration
pub mod Replies
pub mod Numbers
pub mod of_spaces
