-- What the code's proofs cite.
pub mod Line
pub mod Loop
pub mod Body
pub mod Read
pub mod Costs
