-- What the proofs of the records share.
mod Keeping
