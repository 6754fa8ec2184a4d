-- The laws behind the printing: what is left to print, lines from their pieces, the loops over them, the whole, and a formula in buffers.
pub mod Rest
pub mod Lines
pub mod Loops
pub mod Formula
pub mod Held
