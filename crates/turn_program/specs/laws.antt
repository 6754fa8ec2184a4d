-- The laws behind it: a full product formula that buffers hold, the steps of a file, and what is printed.
pub mod Full
pub mod Steps
pub mod Numbers
pub mod Printing
