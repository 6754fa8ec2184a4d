-- Forms as words: their weight, clearing, and the sums that rows name.
pub mod Weight
pub mod Row
pub mod products
pub mod laws
