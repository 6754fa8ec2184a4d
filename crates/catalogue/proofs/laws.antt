-- The laws behind Catalogue.
pub mod Replies
pub mod Numbers
pub mod of_listing
pub mod of_meeting
pub mod of_noting
pub mod of_walk
