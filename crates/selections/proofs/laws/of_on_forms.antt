-- The laws behind the questions on selections.
pub mod Marking
pub mod Naming
pub mod Replies
pub mod Numbers
pub mod Fitting
