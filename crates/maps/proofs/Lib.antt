-- The laws of the loop and of the counts, over plain numbers.
mod Pairing
mod Counting
