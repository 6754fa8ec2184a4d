-- What the code's proofs cite, and what an accepted file has been through.
pub mod Accepted
