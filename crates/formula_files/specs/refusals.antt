-- The refusals 6 to 9 of a formula that is read.
pub mod Number
