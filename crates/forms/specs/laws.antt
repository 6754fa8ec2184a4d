-- The laws behind clearing and counting.
pub mod Clear
pub mod Weight
