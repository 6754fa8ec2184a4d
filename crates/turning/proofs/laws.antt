-- The laws of the turning.
pub mod Loops
pub mod Refusals
pub mod Replies
pub mod Bits
pub mod Accepted
pub mod Right
pub mod Numbers
pub mod Turned
