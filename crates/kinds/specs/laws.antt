-- The laws of sizes, refusals and the numbers of a reply.
pub mod Sizes
pub mod Refusal
pub mod Numbers
