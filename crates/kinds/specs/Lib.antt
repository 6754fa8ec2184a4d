-- The kinds of bilinear map, their sizes, the list of refusals, and the numbers of a reply.
pub mod Kinds
pub mod Limits
pub mod Sizes
pub mod Refusal
pub mod names
pub mod Numbers
pub mod laws
