-- Problems with the prices of their generators.
pub mod Prices
pub mod Replies
pub mod Worked
