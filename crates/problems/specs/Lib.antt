-- Problems on numbers: what they are, what they are refused by, and the prices of their generators.
pub mod Problem
pub mod Replies
pub mod Taken
pub mod prices
