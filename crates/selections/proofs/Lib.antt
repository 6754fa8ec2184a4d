-- The theorems on what the answers mean, and the laws behind them.
pub mod Theorems
pub mod laws
